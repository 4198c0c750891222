-- What callers rest on. To be read in this order.
pub mod Tables
pub mod Contents
pub mod Laws
pub mod Views
