-- What callers rest on, in reading order.
pub mod Line
pub mod Lines
pub mod Course
-- What serves the proofs.
pub mod Known
