pub mod Advance
pub mod Finish
pub mod Get
pub mod Offer
