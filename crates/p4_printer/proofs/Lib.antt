-- Texts of lexemes, for the code.
pub mod Texts
pub mod Loops
pub mod Views
pub mod Keys
-- What can be spelled is spelled but for places.
pub mod Spelt
pub mod SpeltStatements
pub mod SpeltParsers
pub mod SpeltPrograms
-- What is printed is lexemes of P4, with few brackets open.
pub mod Fits
pub mod FitsExpressions
pub mod FitsPrograms
-- Printed texts are read back.
pub mod Touching
pub mod Whole
-- What is printed rests on no place.
pub mod Plain
-- What is spelled can be spelled.
pub mod Structured
pub mod StructuredPrograms
