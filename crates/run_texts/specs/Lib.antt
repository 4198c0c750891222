-- What callers rest on, in reading order.
pub mod Programs
pub mod Tables
pub mod Told
pub mod Registers
pub mod Files
