-- What callers rest on: kinds, what paths stand for, as what they may be used, and the scope that declarations make. To
-- be read in this order.
pub mod Kinds
pub mod Scopes
pub mod Uses
pub mod View
-- What serves the proofs: how names are found by numbers, and what a scope of the program keeps.
pub mod Resolving
pub mod Entries
pub mod Kept
