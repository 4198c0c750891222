-- What callers rest on: the linked parts, and what is said of them.
pub mod Widths
pub mod Statements
pub mod ParserStates
pub mod LinkedParts
pub mod Given
-- The relations in which the laws of the halves are stated.
pub mod Held
