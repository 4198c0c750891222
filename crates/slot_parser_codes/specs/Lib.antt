-- Which parsers have a form over slots.
pub mod KnownParsers
