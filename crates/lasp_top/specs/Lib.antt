pub mod Closed
pub mod Live
pub mod Summary
