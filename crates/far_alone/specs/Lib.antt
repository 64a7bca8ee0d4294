pub mod Between
pub mod Dereference
pub mod Effects
pub mod EventRows
pub mod Events
pub mod Objects
pub mod Own
