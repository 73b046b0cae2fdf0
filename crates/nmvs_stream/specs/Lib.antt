pub mod Console
pub mod Delivery
pub mod Device
pub mod InputLines
pub mod Sink
pub mod Source
