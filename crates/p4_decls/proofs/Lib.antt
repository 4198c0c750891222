-- The turns of the code's loops.
pub mod Lists
pub mod Turns
-- What is read again and again.
pub mod Repeats
pub mod Repeated
-- What is read rests on the lexemes up to its end.
pub mod LocalityParsers
pub mod Locality
-- What is read is spelled so, and what was read up to a fault begins it.
pub mod Props
pub mod SoundDeclaring
pub mod SoundParsers
pub mod SoundTables
pub mod SoundControls
pub mod SoundWhole
-- What is spelled is read.
pub mod Balance
pub mod Firsts
pub mod CompleteDeclaring
pub mod CompleteParsers
pub mod CompleteTables
pub mod CompleteControls
pub mod CompleteWhole
-- What the answer of a text says.
pub mod Whole
pub mod OneAnswer
pub mod Texts
pub mod Written
