-- What callers rest on.
pub mod Faults
-- What serves the proofs.
pub mod View
