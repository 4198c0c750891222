-- What callers rest on, in reading order: the programs as the network's run takes them, what a net holds and stands for,
-- at first too, what is asked of what is handed in, and of which values of the program these are the views.
pub mod Nets
pub mod Starts
pub mod Conditions
pub mod Packets
pub mod Switches
pub mod Views
-- What serves the proofs: which places a switch may take again, where packets are, what holds of their places, what
-- becomes of those that leave a switch, and that maps being maps is a fact.
pub mod Spares
pub mod Places
pub mod Sound
pub mod Departures
pub mod Props
