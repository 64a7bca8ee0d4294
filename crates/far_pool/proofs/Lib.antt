mod Counting
mod Counts
mod Growing
mod Histories
mod Layouts
mod Numbering
mod Rooms
mod Shelves
mod Wholes
mod Workers
pub mod Worst
