-- What callers rest on: the bytes of bits, and what is written.
pub mod Bytes
pub mod Written
-- What serves the proof.
pub mod Pieces
