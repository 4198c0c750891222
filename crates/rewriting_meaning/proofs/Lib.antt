pub mod Runs
pub mod Called
pub mod Acts
