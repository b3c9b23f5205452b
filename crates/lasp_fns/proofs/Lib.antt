pub mod Added
pub mod Names
pub mod SizeLaws
