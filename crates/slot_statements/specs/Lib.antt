-- What callers rest on: code and what it does, that it does what statements mean, what tables are asked and choose, which slots
-- variables and parameters have and what they get, and what has code. To be read in this order.
pub mod Codes
pub mod Runs
pub mod Tables
pub mod Actions
pub mod Parameters
pub mod Known
-- What serves the proofs.
pub mod Starts
