pub mod ListLaws
pub mod DoneLaws
pub mod WorkLaws
pub mod LeaveLaws
