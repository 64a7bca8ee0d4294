pub mod Choices
pub mod Filling
pub mod LeastOnes
pub mod Ranking
pub mod Scripts
