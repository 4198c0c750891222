-- Reading expressions.
pub mod Reading
