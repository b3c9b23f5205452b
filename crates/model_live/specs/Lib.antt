pub mod Words
pub mod Steps
pub mod Story
pub mod Together
pub mod Letter
pub mod Lived
pub mod Knows
