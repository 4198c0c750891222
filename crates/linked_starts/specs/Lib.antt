-- What callers rest on.
pub mod Starts
