pub mod Sorting
pub mod Short
pub mod Files
pub mod Written
