-- What is linked, and what is said of the linked trees.
pub mod Trees
