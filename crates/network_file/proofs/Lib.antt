pub mod NameSteps
pub mod EndLemmas
pub mod LinkLemmas
pub mod NextLemmas
pub mod Sound
pub mod PortLemmas
pub mod Lent
