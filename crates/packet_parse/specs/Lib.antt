-- What callers rest on: what is in sight at a place, and as a store of the meaning. To be read in this order.
pub mod Sight
pub mod Stores
