-- Reading expressions.
pub mod Reading
pub mod Laws
