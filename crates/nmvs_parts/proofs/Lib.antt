pub mod LineCodes
mod PartsExample
pub mod ImportLemmas
pub mod PartLemmas
