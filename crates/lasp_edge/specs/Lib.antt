pub mod Shelf
pub mod MemFiles
pub mod MemSink
pub mod Loops
pub mod Prelude
