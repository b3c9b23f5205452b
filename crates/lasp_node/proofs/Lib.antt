pub mod SettleLaws
pub mod NodeLaws
pub mod TailLaws
pub mod CallLaws
