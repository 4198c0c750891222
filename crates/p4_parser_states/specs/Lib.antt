-- What callers rest on.
pub mod Cycles
pub mod Laws
-- What serves the proofs.
pub mod Graphs
pub mod Numbers
pub mod Search
