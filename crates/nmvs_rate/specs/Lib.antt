pub mod Buckets
pub mod Laws
pub mod Limits
