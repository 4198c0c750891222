pub mod NameLemmas
pub mod UseLemmas
pub mod KnownLemmas
pub mod FitLemmas
pub mod DigestLemmas
pub mod ControlLemmas
pub mod KeyLemmas
