-- What callers rest on: parsers over slots and what they do, when they do what a program's parser means, which steps do what
-- statements mean, which key sets fit alike, and how the code has parsers. To be read in this order.
pub mod ParserCodes
pub mod Parses
pub mod Extracts
pub mod Selects
pub mod Code
