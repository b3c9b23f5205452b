pub mod PlanLaws
pub mod AnswerLaws
pub mod MergeLaws
pub mod FormLaws
mod CauseLaws
mod PlanCauses
mod FirstLaws
mod Firsts
mod Failing
mod NamedLaws
mod KindLaws
mod DeclarationLaws
mod MergeCauses
mod DirectLaws
pub mod PromiseLaws
pub mod NumberLaws
pub mod BackLaws
mod StatusLaws
mod AlikeLaws
mod DotCauses
mod DeltaTextLaws
mod DotTextLaws
pub mod TopLaws
pub mod ScriptLaws
pub mod LiveLaws
