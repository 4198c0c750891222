pub mod BlockLists
pub mod Built
pub mod Retyped
