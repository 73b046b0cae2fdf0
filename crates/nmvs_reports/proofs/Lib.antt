pub mod ReportLemmas
mod AlertNameLemmas
