pub mod Word
pub mod Progress
pub mod Parts
pub mod Check
pub mod Script
pub mod Needs
pub mod First
