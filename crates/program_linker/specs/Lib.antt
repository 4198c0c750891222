-- What callers rest on.
pub mod Linked
pub mod Simpler
-- What serves the proofs.
pub mod Parts
