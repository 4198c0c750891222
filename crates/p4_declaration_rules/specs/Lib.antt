-- What callers rest on: the tests of declarations. To be read in this order.
pub mod Digests
pub mod Declarations
pub mod Tables
pub mod Parsers
pub mod Controls
pub mod Firsts
-- What serves the proofs.
pub mod Loops
