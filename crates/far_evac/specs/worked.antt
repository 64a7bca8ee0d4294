pub mod AsCalled
pub mod Calls
pub mod Copied
pub mod Rows
