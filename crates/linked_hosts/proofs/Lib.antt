pub mod Spots
pub mod ReadyParams
pub mod FieldsSound
pub mod ReadyByRules
pub mod NamesThere
pub mod OwnRoots
