-- What callers rest on, in reading order.
pub mod Job
pub mod Run
pub mod Files
pub mod Views
-- What serves the proofs: switches of the program.
pub mod Switches
