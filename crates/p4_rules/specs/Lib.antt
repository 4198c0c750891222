-- What callers rest on: what is tested of `main` and of limits, and the rules that a program breaks. To be read in this
-- order.
pub mod Mains
pub mod Limits
pub mod ProgramRules
-- What serves the proofs.
pub mod Views
