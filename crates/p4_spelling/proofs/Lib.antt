-- A spelled tree's places rise, by recursion on what spells it.
pub mod Wider
pub mod Lengths
pub mod ListsRise
pub mod StatementsRise
pub mod DeclarationsRise
pub mod ProgramsRise
pub mod Derivations
