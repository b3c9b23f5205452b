pub mod Adding
pub mod Rules
pub mod Logs
pub mod Journals
pub mod Watching
pub mod Publishing
