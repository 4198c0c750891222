pub mod UnderLemmas
pub mod Rows
