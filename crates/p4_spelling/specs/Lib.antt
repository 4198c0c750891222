-- Which lexemes spell a program. To be read in this order.
pub mod Words
pub mod Operators
pub mod Lists
pub mod Types
pub mod Expressions
pub mod Statements
pub mod Parsers
pub mod Controls
pub mod Programs
-- What holds of it.
pub mod Rising
pub mod Example
