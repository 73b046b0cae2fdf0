pub mod Fields
pub mod Tags
pub mod Commands
pub mod Words
pub mod Asks
pub mod Peers
pub mod Withheld
pub mod PendingLines
