-- What callers rest on, in reading order.
pub mod Switches
pub mod Rows
