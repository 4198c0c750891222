pub mod Called
pub mod Listed
pub mod Starts
pub mod Spared
pub mod Passages
pub mod Halves
