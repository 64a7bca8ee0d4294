pub mod Values
pub mod Tables
pub mod Pieces
pub mod Reached
