-- What callers rest on. To be read in this order.
pub mod Maps
pub mod Others
