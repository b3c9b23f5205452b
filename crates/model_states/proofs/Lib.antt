-- The laws of contents.
pub mod CountLaws
pub mod RegisterLaws
pub mod ContentLaws
pub mod DeltaLaws
pub mod ThresholdLaws
pub mod SizeLaws
