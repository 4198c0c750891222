pub mod Known
pub mod Agree
pub mod Linked
pub mod Runs
