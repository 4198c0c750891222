pub mod NameLemmas
pub mod ChoiceLemmas
pub mod NumberLemmas
pub mod StateLemmas
pub mod AnswerLemmas
