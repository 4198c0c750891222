-- What callers rest on: the wire program, and its network.
pub mod WireProgram
pub mod Network
