pub mod Uses
pub mod Offering
