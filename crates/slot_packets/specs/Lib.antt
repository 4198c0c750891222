-- What callers rest on: fields in slots, headers, their validity, and slots as a store. To be read in this order.
pub mod Fields
pub mod Headers
pub mod Validity
pub mod Queued
