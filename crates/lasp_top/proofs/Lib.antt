pub mod ClosedLaws
pub mod PlainLaws
pub mod CommandLaws
mod SummaryLaws
pub mod LiveLaws
