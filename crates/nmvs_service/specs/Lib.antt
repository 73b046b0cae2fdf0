pub mod Faults
pub mod Announcements
pub mod Bounds
pub mod KeptUsers
pub mod Marks
pub mod LogStart
