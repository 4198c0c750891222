pub mod TreeLemmas
pub mod CallLemmas
pub mod MadeLemmas
pub mod ToldLemmas
pub mod BodyLemmas
