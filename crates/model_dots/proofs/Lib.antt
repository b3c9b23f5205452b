-- The laws of sets without tombstones, and of worlds of them.
pub mod DotLaws
pub mod StandLaws
pub mod RiseLaws
pub mod LoopLaws
pub mod UnlimitedLaws
pub mod PlaceLaws
pub mod CountedLaws
pub mod AgreeLaws
pub mod TextLaws
pub mod WordLaws
pub mod SizeLaws
