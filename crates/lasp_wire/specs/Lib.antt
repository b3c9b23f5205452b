pub mod Decoded
pub mod Length
pub mod Placed
pub mod Read
pub mod Sent
pub mod Written
pub mod Prelude
