pub mod Report
pub mod Alerts
pub mod Following
