-- What callers rest on. To be read in this order.
pub mod Names
pub mod Keys
