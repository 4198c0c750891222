-- What callers rest on: what the calls of a control stand for and what they are for, as the code has it, and which
-- statements have steps. To be read in this order.
pub mod Callees
pub mod Acts
pub mod Known
-- What serves the proofs.
pub mod Found
