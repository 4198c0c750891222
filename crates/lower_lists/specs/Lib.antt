-- What callers rest on: the names of numbered scalars, and flat code.
pub mod Names
pub mod Flat
pub mod FlatProperty
