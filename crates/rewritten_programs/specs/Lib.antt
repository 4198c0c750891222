-- What callers rest on: which arguments of calls are values, and programs with other expressions in the place of values.
-- To be read in this order.
pub mod Values
pub mod Rewritten
