-- What callers rest on. To be read in this order.
pub mod Names
pub mod Same
pub mod Environment
pub mod Expressions
pub mod Reads
pub mod Statements
-- The law: what is asked of a block, what a run stands for, and what tables have to do.
pub mod Suiting
pub mod Standing
pub mod Lookups
pub mod Laws
