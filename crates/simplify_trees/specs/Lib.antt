-- What serves the proofs.
pub mod Applied
