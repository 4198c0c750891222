-- What callers rest on. To be read in this order.
pub mod Parted
pub mod Laws
