pub mod WritingLemmas
pub mod ReadingLemmas
pub mod BackLemmas
pub mod SoundLemmas
pub mod WholeLemmas
pub mod PlacesLemmas
pub mod StateLemmas
