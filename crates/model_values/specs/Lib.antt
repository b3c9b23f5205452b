-- The plain data of the runtime.
pub mod Order
pub mod Value
pub mod Token
pub mod Size
pub mod Text
pub mod Row
pub mod Name
pub mod Faults
pub mod Told
pub mod Json
