-- Lemmas.
mod Guarded
