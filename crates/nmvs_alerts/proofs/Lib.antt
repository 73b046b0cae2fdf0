mod AlertLemmas
mod AnswersExample
mod EntryLemmas
mod FollowLemmas
mod JsonLemmas
mod NoHouseLemmas
mod RenamingLemmas
