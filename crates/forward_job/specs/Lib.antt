-- What callers rest on.
pub mod Course
