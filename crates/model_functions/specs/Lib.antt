pub mod Map
pub mod Predicate
pub mod Lift
pub mod Library
pub mod Coded
