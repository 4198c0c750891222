-- What callers rest on.
pub mod Paths
pub mod Headers
pub mod PartsIn
pub mod Places
pub mod Slots
-- What serves the proof.
pub mod Locals
