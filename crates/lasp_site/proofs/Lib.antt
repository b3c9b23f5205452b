pub mod NodeLaws
pub mod StateLaws
pub mod UpdateLaws
pub mod OpenLaws
pub mod OwnLaws
pub mod FileLaws
