pub mod StreamLemmas
pub mod CodecSteps
pub mod OneLineLemmas
pub mod BulkLemmas
