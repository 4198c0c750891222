pub mod Sums
pub mod Counts
pub mod Captures
pub mod Turns
