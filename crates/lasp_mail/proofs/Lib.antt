pub mod Prefixes
pub mod Seats
pub mod Witnesses
pub mod Marks
pub mod Lines
