-- The pure readers' equations, and the turns of the code's loops.
pub mod Layers
pub mod Turns
-- What is read rests on the lexemes up to its end.
pub mod Locality
-- What is spelled is read.
pub mod Balance
pub mod CompleteLists
pub mod CompleteDeclared
pub mod CompleteSimple
pub mod CompleteStatements
-- What is read is spelled so, and what was read up to a fault begins it.
pub mod SoundLists
pub mod SoundDeclared
pub mod SoundSimple
pub mod SoundStatements
-- The answers of a place.
pub mod Answered
pub mod FrontReaders
