pub mod Lists
pub mod Found
pub mod Held
pub mod Changes
