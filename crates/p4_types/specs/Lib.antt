-- What callers rest on: why a program is refused, numbers, constants, and counts. To be read in this order.
pub mod Faults
pub mod Numbers
pub mod Constants
pub mod Counts
-- What serves the proofs.
pub mod Kept
pub mod Words
pub mod Typed
