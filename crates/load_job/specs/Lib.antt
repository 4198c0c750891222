-- What callers rest on, in reading order.
pub mod Within
pub mod Course
pub mod Views
-- What serves the proofs.
pub mod Made
