-- What callers rest on.
pub mod Laws
