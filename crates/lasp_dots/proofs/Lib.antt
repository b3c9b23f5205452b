-- The laws of the searches and of the loops, of pieces, and of replicas along a script.
pub mod PlaceLaws
pub mod RaiseLaws
pub mod SetLaws
pub mod PartLaws
pub mod PieceLaws
mod WorldLaws
mod PlayLaws
mod TextLaws
