pub mod Functions
pub mod Tables
pub mod Call
pub mod Prelude
