-- What callers rest on: which names are the monitor's, which forwarding programs are linked, and what their own code does
-- to two runs that are alike.
pub mod Regions
pub mod Forwarding
pub mod Relations
pub mod OwnCode
