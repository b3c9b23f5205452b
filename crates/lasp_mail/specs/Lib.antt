pub mod Witness
pub mod Parcel
pub mod Line
pub mod Ends
pub mod Prelude
