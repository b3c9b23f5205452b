pub mod SizeLaws
pub mod ComposeLaws
