pub mod Faults
pub mod KeptLines
pub mod WholeLines
pub mod Stores
pub mod Marks
