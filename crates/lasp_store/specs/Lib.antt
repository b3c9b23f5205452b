pub mod Turn
pub mod Tried
pub mod Settled
pub mod Passed
pub mod Letter
pub mod Prelude
pub mod Shelves
