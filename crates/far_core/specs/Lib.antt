pub mod laws
pub mod state
pub mod world
