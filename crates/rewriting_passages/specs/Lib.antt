-- What callers rest on: passages of a program with other values.
pub mod Passages
