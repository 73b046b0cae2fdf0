pub mod Alerts
pub mod Desk
pub mod Refusals
