-- What callers rest on, in reading order.
pub mod Texts
pub mod Views
