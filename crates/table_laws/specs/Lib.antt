-- What callers rest on: what holds of loaded tables, by names. Read `Laws` and `Carried` of `p4_tables` before it.
pub mod Loaded
