pub mod Answered
pub mod Decoded
pub mod Delta
pub mod Letter
pub mod Seen
pub mod Since
pub mod Acts
pub mod Play
