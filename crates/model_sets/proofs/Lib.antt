-- The laws of set states.
pub mod RowLaws
pub mod ValueLaws
pub mod EquationLaws
pub mod WordLaws
pub mod AlgebraLaws
pub mod FoldLaws
pub mod LoopLaws
pub mod UpdateLaws
pub mod TestLaws
pub mod RiseLaws
pub mod ReadLaws
