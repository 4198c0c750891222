-- What callers rest on: the order of the rules, and the tests of expressions and statements. To be read in this order.
pub mod Ranks
pub mod Expressions
pub mod Forms
pub mod Calls
pub mod Statements
-- What serves the proofs: the values of the program, and what the operands of an expression are.
pub mod View
pub mod Operands
