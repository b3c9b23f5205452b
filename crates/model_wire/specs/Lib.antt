pub mod Reader
pub mod Value
pub mod Message
pub mod Lawful
pub mod Spelling
pub mod Prefix
pub mod Stuck
