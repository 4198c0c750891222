-- What callers rest on: which bits a deparser over slots emits, and that these are the bits that a program's deparser emits;
-- bits behind others in bytes. To be read in this order.
pub mod Emits
pub mod Emission
