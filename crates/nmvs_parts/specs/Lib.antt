pub mod Part
pub mod Import
pub mod Laws
