pub mod RunLemmas
pub mod OneAnswer
pub mod WrittenLemmas
