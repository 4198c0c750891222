-- What callers rest on (`Shapes` of `table_shapes` and `Entries` of `table_entries` before it): what tables hold, why entries
-- are refused, what a table answers, the tables of a program, what holds of them, and what is carried into another program,
-- and when all of it has a place there. To be read in this order.
pub mod State
pub mod Faults
pub mod Answers
pub mod Programs
pub mod Named
pub mod Laws
pub mod Carried
-- What serves the proofs.
pub mod Kept
pub mod Indexed
pub mod CarriedWalk
pub mod StandsTests
