pub mod NameBytes
pub mod TypedValues
pub mod Certificates
pub mod Frames
pub mod OneReading
