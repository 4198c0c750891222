-- What callers rest on: the answers of a place, and what is left out.
pub mod LeftOut
pub mod Answers
-- Reading statements and what is declared with them. To be read in this order.
pub mod Declaring
pub mod Reading
