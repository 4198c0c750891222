pub mod HalvesLemmas
pub mod PassLemmas
pub mod StartLemmas
