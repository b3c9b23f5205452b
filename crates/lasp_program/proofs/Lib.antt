pub mod FunctionLaws
pub mod TableLaws
pub mod CallLaws
