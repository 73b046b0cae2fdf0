pub mod FactsLemmas
pub mod FindLemmas
pub mod PushLemmas
pub mod TextLemmas
pub mod Accepted
pub mod LawfulLemmas
pub mod CodeLemmas
pub mod MergeLemmas
pub mod ReplyLemmas
pub mod LockLemmas
pub mod BirthLemmas
pub mod MarkLemmas
pub mod CourseLemmas
pub mod PrintedLemmas
pub mod ReversionLemmas
pub mod VerificationLemmas
pub mod RecallLemmas
pub mod AlertLemmas
pub mod AuditLemmas
pub mod AlertingLemmas
pub mod HolderLemmas
pub mod AcceptanceLemmas
pub mod OldTrails
pub mod RepeatLemmas
pub mod RepeatLaws
pub mod UntaggedLemmas
mod WorkedExample
mod LawsExample
