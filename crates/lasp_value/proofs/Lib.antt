mod Characters
mod Parts
mod Sizes
pub mod PlacesLaws
