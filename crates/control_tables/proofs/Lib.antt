pub mod Lookups
pub mod KeySteps
