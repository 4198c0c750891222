-- What callers rest on, in reading order.
pub mod Ends
pub mod Wire
pub mod Views
-- What serves the proofs: what a state counts.
pub mod Counted
