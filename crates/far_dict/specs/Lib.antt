pub mod Names
pub mod Longs
pub mod Dictionaries
pub mod Causes
pub mod Walks
pub mod Tours
