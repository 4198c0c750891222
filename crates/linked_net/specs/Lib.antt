-- What callers rest on: what is known of a net that is started, and of what is handed on beside it.
pub mod First
pub mod Handed
-- What serves the proofs: the tables of all switches, and the switches that are made of them.
pub mod Loading
pub mod Switches
