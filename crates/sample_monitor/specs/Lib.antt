-- What callers rest on: a property made by hand, and its monitor.
pub mod Property
pub mod Sample
-- What shows that the laws are about something: a switch and a packet, and monitors that break a law.
pub mod Example
pub mod Wrong
