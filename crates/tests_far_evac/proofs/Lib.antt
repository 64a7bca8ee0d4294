pub mod KeptWords
pub mod Uses
