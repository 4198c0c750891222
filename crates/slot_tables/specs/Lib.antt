-- What callers rest on: what tables choose by their numbers, and that it is what they choose by names.
pub mod Choices
