-- What is kept of a set and of its pieces, the tests of its searches, and what the replicas of a run are.
pub mod Kept
pub mod Places
pub mod Pieces
pub mod Replicas
pub mod Commands
pub mod Prelude
