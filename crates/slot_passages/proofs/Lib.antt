pub mod ControlLemmas
pub mod HalvesLemmas
