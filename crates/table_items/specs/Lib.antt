-- What callers rest on: how many items the tables of control variables hold, and which number is too large.
pub mod Items
pub mod Views
-- What serves the proofs: the sums of the switches, variable by variable.
pub mod Steps
