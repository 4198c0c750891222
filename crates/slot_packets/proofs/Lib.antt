pub mod ByteLemmas
pub mod PartLemmas
pub mod HeaderLemmas
pub mod ValidityLemmas
pub mod QueuedLemmas
mod Rows
