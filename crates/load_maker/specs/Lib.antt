-- What callers rest on, in reading order: the switches and hosts, the packets that are drawn, frames, captures, the
-- values of the JSON files, the texts of the program and the property, and all files.
pub mod Numbers
pub mod Fabric
pub mod Draws
pub mod Frames
pub mod Captures
pub mod Values
pub mod Texts
pub mod Made
-- What serves the proofs: values whose texts are known.
pub mod Plain
