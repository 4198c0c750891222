-- What callers rest on. To be read in this order.
pub mod Whole
pub mod Asked
pub mod Bytes
pub mod Few
pub mod Example
