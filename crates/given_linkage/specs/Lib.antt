-- What is linked, and what is said of it.
pub mod Given
