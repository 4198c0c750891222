-- What callers rest on: what is known of scopes, and laws. To be read in this order.
pub mod Knows
pub mod Laws
