pub mod Placing
pub mod Reading
pub mod Staying
