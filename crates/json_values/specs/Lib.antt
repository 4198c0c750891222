-- What callers rest on, in reading order: which texts are numbers, which values are words, what
-- readers answer.
pub mod Texts
pub mod Words
pub mod Views
