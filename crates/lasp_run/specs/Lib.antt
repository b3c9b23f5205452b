pub mod Run
pub mod Merge
pub mod Prelude
