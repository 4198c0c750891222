-- What callers rest on. To be read in this order.
pub mod Fits
pub mod Laws
