pub mod KeyLemmas
pub mod NewLemmas
pub mod SeatLemmas
