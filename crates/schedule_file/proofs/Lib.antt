pub mod WaitingLemmas
pub mod SetLemmas
