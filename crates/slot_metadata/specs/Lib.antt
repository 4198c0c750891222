-- What callers rest on: what a passage does to slots outside of its controls, and that slots follow the stores that the
-- trees' meaning has there. To be read in this order.
pub mod Metadata
pub mod Laws
