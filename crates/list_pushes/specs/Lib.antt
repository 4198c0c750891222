-- What callers rest on: the names of numbered scalars, and pushes.
pub mod Names
pub mod Pushes
