pub mod Chains
pub mod Names
pub mod Graphs
pub mod Forms
