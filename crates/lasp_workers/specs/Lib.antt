pub mod Replicas
pub mod Done
pub mod Worked
pub mod Asked
