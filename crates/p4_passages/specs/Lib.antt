-- What callers rest on: what waits between the halves, and where packets go.
pub mod Waiting
-- What serves the proofs.
pub mod Halves
pub mod Rows
