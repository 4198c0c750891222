-- What serves the rows.
pub mod Choices
