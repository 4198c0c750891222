-- What callers rest on: what is in sight, how the parser ends, and the bits that it leaves.
pub mod Fields
pub mod Ends
pub mod Rests
-- What serves the proofs.
pub mod Places
pub mod Left
