-- What sets without tombstones mean, and worlds of them.
pub mod Dots
pub mod Loops
pub mod Unlimited
pub mod DotWorld
pub mod Counted
pub mod DotReport
pub mod Words
pub mod Sizes
