-- What callers rest on. To be read in this order.
pub mod Registers
pub mod Laws
