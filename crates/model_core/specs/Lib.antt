pub mod Peer
pub mod Core
pub mod Known
pub mod Trace
pub mod Traced
