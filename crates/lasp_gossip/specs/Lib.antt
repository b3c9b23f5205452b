pub mod Network
pub mod Tally
pub mod Exchange
pub mod Prelude
