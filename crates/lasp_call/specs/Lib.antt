pub mod Words
pub mod Failure
pub mod Opens
pub mod Ends
pub mod Message
pub mod Prelude
