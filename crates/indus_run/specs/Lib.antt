-- What callers rest on: which reports are short.
pub mod Reports
