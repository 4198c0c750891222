-- What callers rest on, in reading order.
pub mod Captures
pub mod Views
-- What serves the proofs: frames sorted by switches and ports.
pub mod Sorted
