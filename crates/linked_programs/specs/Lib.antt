-- What callers rest on: what is linked, the linked tree, and what is said of it.
pub mod Lowered
pub mod Rewritten
pub mod Linked
pub mod Gives
pub mod Woven
pub mod Spells
pub mod Bare
-- What serves the proof: what of a program its linking rests on.
pub mod Reads
pub mod Ready
