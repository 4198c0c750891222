pub mod TreeLemmas
pub mod TurnLemmas
pub mod NameLemmas
