pub mod Marking
pub mod Grouping
pub mod Exited
pub mod Walked
pub mod Declared
pub mod Spelled
pub mod Plain
