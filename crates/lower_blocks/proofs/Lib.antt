pub mod Widths
pub mod Whole
