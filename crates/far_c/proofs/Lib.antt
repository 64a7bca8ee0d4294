mod AsBox
mod AsBoxMap
mod Statuses
mod Telling
