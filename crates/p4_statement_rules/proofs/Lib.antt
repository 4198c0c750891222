pub mod Counts
pub mod OperandsLemmas
pub mod SumsLemmas
pub mod Verbs
mod Rows
