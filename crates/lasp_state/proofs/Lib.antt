mod FoldLaws
mod JoinLaws
pub mod StateLaws
mod ThresholdLaws
pub mod MemberLaws
pub mod RaiseLaws
