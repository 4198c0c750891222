-- What callers rest on: what tables take, and what values of the program stand for.
pub mod Shapes
pub mod View
