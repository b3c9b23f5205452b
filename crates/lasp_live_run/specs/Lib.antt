pub mod Posts
pub mod Seat
pub mod Run
