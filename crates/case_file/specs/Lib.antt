-- What callers rest on, in reading order: how a case file is written, and what of the program this is
-- the view of.
pub mod Case
pub mod Views
