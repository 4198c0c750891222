-- What callers rest on, in reading order.
pub mod Output
pub mod Headline
