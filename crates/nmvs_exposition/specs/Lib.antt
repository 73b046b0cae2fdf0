pub mod Page
pub mod Visits
