-- What callers rest on, in reading order.
pub mod Which
pub mod Rows
