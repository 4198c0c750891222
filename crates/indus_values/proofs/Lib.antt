pub mod SeatLemmas
pub mod StartLemmas
pub mod NameLemmas
