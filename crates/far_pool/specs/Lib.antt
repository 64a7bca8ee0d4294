pub mod Bits
pub mod Generations
pub mod History
pub mod Plans
pub mod Pool
pub mod Rooms
pub mod Statistics
pub mod Numbers
