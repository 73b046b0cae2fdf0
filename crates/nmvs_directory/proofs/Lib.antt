pub mod Beginnings
pub mod Adding
pub mod KnownLemmas
pub mod UsersLemmas
