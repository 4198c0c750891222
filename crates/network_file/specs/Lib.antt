-- What callers rest on, in reading order: how a file is written, what it says and which fault it
-- has, how the network's run sees it, the steps of a schedule, and what of the program these are the
-- view of.
pub mod Shape
pub mod Named
pub mod Network
pub mod Wiring
pub mod Events
pub mod Views
-- What serves the proofs: both ends of each link, as a network keeps them.
pub mod Ends
