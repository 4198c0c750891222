-- What callers rest on: the three rules, as functions on trees, and what becomes of an expression by rules in their order.
-- To be read in this order.
pub mod Known
pub mod FoldNumbers
pub mod FoldChoice
pub mod DropNeutral
pub mod Simplified
pub mod FirstAnswer
-- What serves the proofs.
pub mod Rights
