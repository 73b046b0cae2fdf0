pub mod Incoming
pub mod Sent
