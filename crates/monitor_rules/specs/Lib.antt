-- What callers rest on. To be read in this order.
pub mod Declared
pub mod Fields
pub mod Rules
pub mod Told
pub mod Counted
