-- What callers rest on: lines, courses, what a step says of its course, and what an answer says.
pub mod Lines
pub mod Course
pub mod Steps
pub mod Output
pub mod Ending
-- What serves the proofs: the parts of a command.
pub mod Plan
pub mod Delivery
