-- What callers rest on. To be read in this order.
pub mod Named
pub mod Linked
pub mod Runs
