-- What callers rest on: what the states, views and results of the program stand for.
pub mod View
-- What serves the proof.
pub mod Lists
