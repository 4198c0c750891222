-- What callers rest on.
pub mod Lent
pub mod Rows
pub mod Scopes
