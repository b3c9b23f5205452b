pub mod Settling
pub mod View
pub mod Prelude
