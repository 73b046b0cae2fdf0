pub mod Codes
pub mod Packs
pub mod Links
pub mod Cursors
pub mod Batches
pub mod Listing
pub mod Tables
