pub mod Lines
pub mod Firsts
pub mod Causes
pub mod Doing
pub mod Telling
pub mod Tallies
pub mod Tallying
