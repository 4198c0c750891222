-- What callers rest on: the code of a program and the room that it needs, what the two halves of a passage do by it, when
-- code is that of a program, and that the halves then do what those of the trees' meaning do. To be read in this order.
pub mod Codes
pub mod Room
pub mod Halves
pub mod Programs
pub mod Laws
