-- What callers rest on: the sites of a property, and the rules.
pub mod Sites
pub mod Rules
