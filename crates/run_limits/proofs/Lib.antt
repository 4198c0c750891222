pub mod Short
pub mod Fewer
pub mod Within
