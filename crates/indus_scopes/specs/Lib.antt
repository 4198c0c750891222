-- What callers rest on: kinds, what names stand for, as what they may be used, and loops.
pub mod Kinds
pub mod Scopes
pub mod Uses
pub mod Sights
pub mod Items
-- What serves the proofs: the table of names.
pub mod NameTable
