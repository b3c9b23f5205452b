pub mod Failure
pub mod Site
