pub mod RequestLines
pub mod Requests
pub mod Responses
pub mod StreamState
pub mod Streams
pub mod Codecs
pub mod OneLine
pub mod BulkLaws
