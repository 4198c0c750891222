-- What callers rest on: what a command is to do, what it asks for, refuses and gives, its outputs, and every answer.
pub mod Job
pub mod Output
pub mod Command
pub mod Answers
