pub mod Tags
pub mod Lines
pub mod Texts
pub mod Wordings
pub mod Session
pub mod Progress
