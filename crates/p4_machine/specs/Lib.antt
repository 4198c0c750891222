-- What callers rest on: what a passage does, buffers and places, and what a switch keeps. To be read in this order.
pub mod Passages
pub mod Buffers
pub mod State
-- What serves the proofs.
pub mod Loaded
pub mod Kept
