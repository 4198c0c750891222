-- What callers rest on: the answers of a text.
pub mod Faults
-- What serves the proofs: reading declarations and programs. To be read in this order.
pub mod Repeating
pub mod Declaring
pub mod Parsing
pub mod Tables
pub mod Controls
pub mod Programs
pub mod Found
