pub mod Choice
pub mod Examples
pub mod Filled
pub mod Laws
pub mod LeastLive
pub mod Logs
pub mod Scripted
