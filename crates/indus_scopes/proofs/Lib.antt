pub mod Names
pub mod ItemNames
pub mod Entering
pub mod Lengths
