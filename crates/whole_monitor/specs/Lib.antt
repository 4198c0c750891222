-- What callers rest on.
pub mod WholeLaws
pub mod Views
