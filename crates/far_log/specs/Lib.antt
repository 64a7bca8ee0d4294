pub mod Convert
pub mod Laws
pub mod Spans
pub mod Walk
