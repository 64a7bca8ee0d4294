pub mod AsCalled
pub mod Largest
