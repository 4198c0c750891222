-- What callers rest on. To be read in this order.
pub mod Maps
pub mod Numbers
pub mod Laws
-- What serves those who set a variable.
pub mod Steps
