-- What callers rest on.
pub mod Laws
-- What serves the proof.
pub mod Marks
pub mod Groups
pub mod Exiting
