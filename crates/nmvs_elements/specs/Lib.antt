pub mod Elements
pub mod Scan
pub mod Front
pub mod Found
pub mod Laws
pub mod Faults
