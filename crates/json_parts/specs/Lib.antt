-- What callers rest on, in reading order: which value bytes are, values as lists, what readers
-- answer, paths, the elements of a list in turn, the members of an object, and what of the program
-- they are the view of.
pub mod Json
pub mod Trees
pub mod Answers
pub mod Paths
pub mod Turns
pub mod Object
pub mod Views
