-- What callers rest on, in reading order.
pub mod Lines
pub mod Links
pub mod Views
