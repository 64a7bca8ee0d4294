pub mod Fitting
pub mod Resting
