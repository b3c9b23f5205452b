pub mod Closed
pub mod Ran
pub mod Spots
pub mod Stores
