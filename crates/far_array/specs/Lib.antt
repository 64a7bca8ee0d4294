pub mod Rows
pub mod Places
pub mod Reasons
pub mod Listed
