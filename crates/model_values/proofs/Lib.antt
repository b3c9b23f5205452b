mod Offences
pub mod ListLaws
pub mod SizeLaws
