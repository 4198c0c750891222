-- What callers rest on, in reading order: how entries and defaults are written, which words and
-- matches they say, which entry or default that is, or its fault, and what of the program these are
-- the view of.
pub mod Written
pub mod Matches
pub mod Entries
pub mod Views
