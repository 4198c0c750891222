-- Parsers, tables, statements behind each other.
pub mod Turns
pub mod Choices
pub mod Sequences
-- Names in scope.
pub mod Words
pub mod Seen
pub mod ScopeWords
-- What statements keep.
pub mod KeptWords
pub mod FewDigests
