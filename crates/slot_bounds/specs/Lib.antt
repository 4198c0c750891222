-- What callers rest on: how many bits a program's deparser emits at the most, and how many digests a passage gives. To be
-- read in this order.
pub mod Bounds
