pub mod Spies
