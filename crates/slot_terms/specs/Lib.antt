-- What callers rest on: what slots hold, terms and their values, which slots paths have, and what terms mean. To be read in this order.
pub mod States
pub mod Terms
pub mod Typed
pub mod Places
pub mod Known
-- What serves the proofs.
pub mod Nodes
pub mod Own
pub mod Hashes
