pub mod book
pub mod worked
