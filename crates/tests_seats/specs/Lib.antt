pub mod Marked
pub mod Offers
