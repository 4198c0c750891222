-- What a lowering promises for the rules.
pub mod Passes
pub mod Digests
pub mod Promises
-- What a linked program keeps: its rules, with what is counted of it, and its form.
pub mod Fine
pub mod Form
pub mod Held
-- A lowering that keeps the promises.
pub mod BareRules
-- What serves the proof.
pub mod Lengths
