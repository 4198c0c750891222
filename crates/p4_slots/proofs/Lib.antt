pub mod RegisterLemmas
pub mod SlotLemmas
pub mod PlaceLemmas
pub mod MachineLemmas
pub mod KindLemmas
