pub mod Entry
pub mod Journal
pub mod Clean
pub mod Legal
pub mod Callers
pub mod Message
