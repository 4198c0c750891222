pub mod EmitLemmas
pub mod LoopLemmas
pub mod RestLemmas
mod Rows
