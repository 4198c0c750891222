-- What callers rest on: tests, rules that are broken, and the first of these.
pub mod Tests
