-- What callers rest on: entries, and what values of the program stand for. To be read in this order.
pub mod Entries
pub mod View
-- What serves the proofs: one walk over entries, and the index.
pub mod Walk
pub mod Signs
pub mod Index
