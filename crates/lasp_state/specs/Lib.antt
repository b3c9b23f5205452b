pub mod Joined
pub mod State
pub mod Threshold
pub mod Counts
pub mod CountLaws
pub mod Members
pub mod RegisterLaws
pub mod Prelude
