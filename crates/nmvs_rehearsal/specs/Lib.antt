pub mod Roster
pub mod Rehearsal
