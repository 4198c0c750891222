-- What callers rest on: sites, rules that are broken at them, and the first of these.
pub mod Sites
