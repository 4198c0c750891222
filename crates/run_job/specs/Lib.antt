-- What callers rest on, in reading order.
pub mod Course
pub mod Views
