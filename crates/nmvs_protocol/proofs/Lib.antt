pub mod KeptLines
pub mod QuitLines
pub mod SessionTelling
pub mod SessionSteps
pub mod TagLemmas
pub mod SpellingLemmas
pub mod QuestionLemmas
