pub mod Families
pub mod Readiness
