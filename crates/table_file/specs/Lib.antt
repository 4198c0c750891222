-- What callers rest on, in reading order: what a file's entries and defaults make of the tables of a
-- switch, and what the file says of all switches, or its first fault.
pub mod Tables
pub mod Entries
pub mod Laws
pub mod Views
