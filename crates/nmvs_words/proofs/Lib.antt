pub mod WordLemmas
pub mod PlainWords
