pub mod AboveLemmas
pub mod StartLemmas
pub mod TurnLemmas
mod Rows
