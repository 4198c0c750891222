-- What callers rest on, in reading order.
pub mod Linkage
pub mod HalvesLaws
pub mod Moves
