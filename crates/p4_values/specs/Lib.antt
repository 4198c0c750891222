-- What serves the proofs.
pub mod Sums
