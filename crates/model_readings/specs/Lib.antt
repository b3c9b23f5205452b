pub mod Tree
pub mod Graph
pub mod Lawful
