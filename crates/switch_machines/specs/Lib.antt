-- What callers rest on: the programs of switches as machines of a network.
pub mod Programs
