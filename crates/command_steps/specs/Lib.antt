-- What callers rest on: the course of a whole command.
pub mod Whole
