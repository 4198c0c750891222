-- What callers rest on: what statements work on, and what tables choose. To be read in this order.
pub mod Cells
pub mod Runs
pub mod Outcomes
-- What serves the proofs.
pub mod Calls
pub mod Kept
