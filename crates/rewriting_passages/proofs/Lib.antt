mod Scopes
mod Parts
mod Emits
mod Found
mod Owned
mod Controls
pub mod Passages
