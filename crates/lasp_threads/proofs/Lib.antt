pub mod BackLaws
pub mod ListLaws
pub mod SpotLaws
pub mod KeptLaws
pub mod RanLaws
pub mod NodesLaws
pub mod StoreLaws
pub mod ClosedLaws
