-- What callers rest on: numbered scalars and what they hold, and the laws.
pub mod Numbered
pub mod Meaning
pub mod Form
pub mod Sizes
pub mod Typing
