pub mod LoadedLemmas
pub mod SwitchLemmas
