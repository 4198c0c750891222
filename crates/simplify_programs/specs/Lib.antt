-- What callers rest on: what a program with answers of rules in it has of the given one.
pub mod Simplified
