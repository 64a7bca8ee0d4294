pub mod Either
pub mod Reserved
