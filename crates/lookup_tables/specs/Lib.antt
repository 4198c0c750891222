-- What callers rest on. To be read in this order.
pub mod Tables
pub mod Finding
