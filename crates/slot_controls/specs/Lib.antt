-- What callers rest on: what a control runs over slots, what its calls stand for, and that it does what its statements
-- mean. To be read in this order.
pub mod Steps
pub mod Callees
pub mod StepRuns
pub mod Laws
-- What serves the proofs.
pub mod Sums
