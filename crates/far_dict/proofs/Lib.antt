pub mod Keys
pub mod Rows
pub mod Joining
pub mod Keeping
pub mod Tables
pub mod Moves
pub mod Union
pub mod Changes
pub mod Told
mod Walking
