-- What a linker rests on: why a program is not linked with a property, and where each refusal comes.
pub mod Refusals
pub mod Faults
pub mod Causes
pub mod NoFault
-- What serves these.
pub mod HeaderFields
pub mod WrittenNames
pub mod Taken
pub mod TableNames
