-- What readers and printers rest on: reserved words and marks, tokens as lexemes, and lexemes as texts.
pub mod Keys
pub mod Seen
pub mod Written
pub mod Laws
-- What readers answer.
pub mod Brackets
pub mod Faults
-- What readers are made of.
pub mod Reading
pub mod Joins
pub mod Moving
pub mod Placed
