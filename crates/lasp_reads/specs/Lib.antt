pub mod Future
pub mod Wake
