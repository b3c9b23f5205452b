-- Laws of a set that is kept as its log and a table.
pub mod KeptLaws
pub mod LiveLaws
pub mod ChainLaws
pub mod WholeLaws
pub mod PassLaws
pub mod ShownLaws
pub mod FewLaws
pub mod GrownLaws
pub mod BeginLaws
pub mod BehindLaws
pub mod PlaceLaws
pub mod NearLaws
pub mod AnyLaws
pub mod WeightLaws
pub mod TakenLaws
pub mod RowListLaws
