pub mod ShapesLemmas
pub mod WordsLemmas
pub mod BehindLemmas
pub mod Counts
