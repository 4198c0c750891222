-- What callers rest on, in reading order.
pub mod Packets
pub mod Course
pub mod Views
