pub mod HashLemmas
pub mod MaskedLemmas
pub mod PlaceLemmas
pub mod ReadLemmas
pub mod LaidLemmas
pub mod KnownLemmas
pub mod MeansLemmas
pub mod TreeLemmas
mod Rows
