-- What callers rest on. To be read in this order.
pub mod Contents
pub mod Room
pub mod Holding
pub mod Jobs
