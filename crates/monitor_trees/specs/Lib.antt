-- What callers rest on. To be read in this order.
pub mod Trees
pub mod Spelled
-- What serves the proof: scopes in which trees stand, and the law of the code of a block.
pub mod Stage
pub mod Code
