-- What callers rest on, in reading order: keys, contents, and the file of all switches; and what of the program these
-- are the view of.
pub mod Keys
pub mod Contents
pub mod Control
pub mod Views
-- What serves the proofs: the places among control variables.
pub mod Seats
