pub mod Refusals
pub mod Scans
pub mod Questions
pub mod Bulks
pub mod Replies
pub mod Places
pub mod Laws
