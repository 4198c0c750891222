-- What callers rest on.
pub mod Linked
-- What serves it: what the program has, and what is counted.
pub mod Shown
pub mod Counted
