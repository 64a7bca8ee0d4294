pub mod Sealed
pub mod SealedMap
pub mod Told
pub mod Telling
