pub mod Held
pub mod Sound
pub mod Calls
pub mod Part
