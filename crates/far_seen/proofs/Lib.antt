pub mod Members
pub mod Outcomes
pub mod Told
pub mod Wholes
pub mod Longs
pub mod Listing
pub mod Placing
pub mod Counting
