-- What callers rest on: the trees, the views to them, and the meaning.
pub mod Tree
pub mod Places
pub mod Height
pub mod View
pub mod State
pub mod Start
pub mod Operators
pub mod Reads
pub mod Keys
pub mod Value
pub mod Meaning
pub mod Hops
pub mod Law
pub mod Shapes
pub mod Words
pub mod Names
pub mod Reports
