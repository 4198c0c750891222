-- What callers rest on: tables of a program with other values.
pub mod Tables
