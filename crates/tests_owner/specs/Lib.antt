pub mod Fits
pub mod Used
pub mod Works
