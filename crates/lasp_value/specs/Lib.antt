pub mod Json
pub mod Size
pub mod Token
pub mod Value
pub mod Places
