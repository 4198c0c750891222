-- What callers rest on, in reading order.
pub mod Worlds
pub mod Claims
pub mod Law
