pub mod Changes
pub mod Happens
pub mod Runs
pub mod Steps
pub mod World
pub mod WorldOf
