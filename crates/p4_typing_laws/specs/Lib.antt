-- What callers rest on: where a program uses names and values, and what is sure of well-typed programs. To be read in
-- this order.
pub mod Places
pub mod Names
pub mod Soundness
pub mod Widths
pub mod States
pub mod Plain
pub mod Counted
pub mod Tied
pub mod Stores
pub mod Along
pub mod Runs
