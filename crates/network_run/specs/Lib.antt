-- What callers rest on, in reading order.
pub mod Machine
pub mod Network
pub mod Events
pub mod NetworkRun
pub mod PathMeaning
pub mod World
pub mod Hop
-- What serves the proofs: the words of the small laws.
pub mod RunLaws
