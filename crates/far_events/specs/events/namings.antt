pub mod Evicts
pub mod Fetches
pub mod Moves
pub mod Places
pub mod Retires
pub mod Stays
