pub mod Lines
pub mod Stored
pub mod Parts
pub mod Causes
pub mod Tallied
pub mod Listed
