-- What callers rest on.
pub mod Limits
