pub mod Happens
pub mod Room
pub mod Started
pub mod Ending
pub mod Copied
pub mod Written
