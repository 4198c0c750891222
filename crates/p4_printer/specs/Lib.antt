-- What callers rest on: which trees can be printed, what their texts say, and the laws.
pub mod CanSpell
pub mod Printed
pub mod Laws
-- What is printed: lexemes as text, and the lexemes of each part of a program, from types up.
pub mod Forms
pub mod Layout
pub mod Expressions
pub mod Statements
pub mod Programs
