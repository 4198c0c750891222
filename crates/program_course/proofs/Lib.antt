pub mod Checking
pub mod Spelling
