-- What callers rest on. To be read in this order.
pub mod Trees
pub mod Results
-- What serves the proofs.
pub mod View
