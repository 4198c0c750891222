pub mod RowsLemmas
pub mod ProgramLemmas
pub mod HeadersLemmas
pub mod LoopLemmas
pub mod PlacedLemmas
mod Rows
