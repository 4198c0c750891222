-- Lemmas.
pub mod Lines
pub mod Switches
pub mod Behind
