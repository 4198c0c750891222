-- Lemmas.
pub mod Rows
