pub mod Leaves
pub mod Theorem
