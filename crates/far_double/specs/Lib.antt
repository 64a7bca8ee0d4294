pub mod Held
pub mod Law
