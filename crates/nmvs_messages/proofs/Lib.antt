pub mod EntryTexts
pub mod FieldLemmas
pub mod KeptLines
pub mod PlainLemmas
pub mod CommandLemmas
pub mod Releases
