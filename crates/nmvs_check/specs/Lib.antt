pub mod Answers
pub mod Comparison
pub mod Scans
pub mod Status
