-- What callers rest on: rewritten code, code that writes neither length, and runs that differ in the packet's length;
-- and what rewritten parser states do.
pub mod Lengths
pub mod Readings
