-- What callers rest on. To be read in this order.
pub mod Places
pub mod Forms
pub mod Rows
