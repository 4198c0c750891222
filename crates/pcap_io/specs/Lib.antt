-- What callers rest on, in reading order: a record, numbers at offsets, which records a file holds,
-- when each fault comes, and the file that is written.
pub mod Record
pub mod Fields
pub mod Holds
pub mod Faults
pub mod Written
-- What serves the proofs: the one answer that the reader finds, on its way.
pub mod Answer
