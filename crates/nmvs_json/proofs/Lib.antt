pub mod ReplyLemmas
pub mod LawLemmas
pub mod UniqueKeys
pub mod Bodies
pub mod ScanLemmas
pub mod BulkLemmas
