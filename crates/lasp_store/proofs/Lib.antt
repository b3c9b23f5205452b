pub mod TurnLaws
pub mod EvaluatedLaws
pub mod SettleLaws
pub mod BringLaws
pub mod KnownLaws
pub mod PassedLaws
pub mod ShelfLaws
