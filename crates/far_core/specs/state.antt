pub mod Agrees
pub mod CoreState
pub mod Kept
pub mod Room
