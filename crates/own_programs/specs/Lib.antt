-- What is asked of a program, and that what it runs is a forwarding program.
pub mod OwnPrograms
pub mod Laws
