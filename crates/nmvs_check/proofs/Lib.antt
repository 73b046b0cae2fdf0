pub mod AnswerLemmas
pub mod ScanLemmas
