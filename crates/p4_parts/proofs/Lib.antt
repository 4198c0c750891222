pub mod ActionsLemmas
pub mod SettingsLemmas
pub mod Placed
