pub mod TakeLemmas
pub mod StepLemmas
pub mod TurnLemmas
pub mod MakingLemmas
pub mod RunLemmas
mod Rows
