-- What callers rest on, in reading order.
pub mod Job
pub mod Run
pub mod Views
