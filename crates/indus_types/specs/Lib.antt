-- What callers rest on: the causes of a refusal, the sums, the declared names, and what well-typedness says of a tree.
pub mod Faults
pub mod Sums
pub mod NameTable
pub mod Facts
pub mod Fits
pub mod StaticWidths
pub mod Views
