-- What callers rest on, in reading order.
pub mod Output
pub mod Headline
-- What serves the proofs.
pub mod Happening
pub mod Finished
pub mod Views
