-- What callers rest on: how the rows of a map are numbered, and what is asked of it and of contents. To be read in this order.
pub mod Rows
pub mod Loading
-- What serves the proofs.
pub mod Steps
