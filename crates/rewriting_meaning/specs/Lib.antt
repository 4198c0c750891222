-- What callers rest on: what is known at each statement to which a run comes, and laws. To be read in this order.
pub mod Sights
pub mod Laws
