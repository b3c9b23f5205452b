pub mod MessageLaws
pub mod OpenLaws
pub mod TellLaws
