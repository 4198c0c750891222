-- What callers rest on.
pub mod View
-- What serves the proofs.
pub mod Bodies
pub mod Bits
