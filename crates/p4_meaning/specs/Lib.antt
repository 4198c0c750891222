-- What callers rest on: the meaning, from what is in sight to the two halves of a pass. To be read in this order.
pub mod Standard
pub mod Store
pub mod Value
pub mod Checksum
pub mod Statements
pub mod Scope
pub mod Under
pub mod Parsing
pub mod Choice
pub mod Actions
pub mod Tables
pub mod Parts
pub mod Pass
pub mod DigestBound
-- What holds of it, for every program.
pub mod Laws
