-- The halves of a passage of programs without exits, and of the given ones.
pub mod Passages
