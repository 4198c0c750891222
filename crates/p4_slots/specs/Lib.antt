-- What callers rest on: the places of a program's paths, what waits in slots, what a switch over slots keeps, and that of both
-- kinds of switches. To be read in this order.
pub mod SlotPlaces
pub mod Machines
pub mod Kinds
-- What serves the proofs.
pub mod Plans
pub mod Kept
