pub mod Version
pub mod Log
pub mod Rule
pub mod Views
