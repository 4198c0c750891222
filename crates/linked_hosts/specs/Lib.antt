-- What callers rest on. To be read in this order.
pub mod Linkable
pub mod Spelled
