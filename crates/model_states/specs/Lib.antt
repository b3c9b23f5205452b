pub mod Counts
pub mod Register
pub mod Content
pub mod Update
pub mod Threshold
pub mod Shape
pub mod Coded
