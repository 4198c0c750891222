-- Lemmas.
pub mod Written
