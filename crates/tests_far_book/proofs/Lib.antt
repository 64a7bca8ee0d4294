pub mod Offers
pub mod Uses
