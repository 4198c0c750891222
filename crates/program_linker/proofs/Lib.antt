pub mod Monitors
pub mod Typed
pub mod Links
pub mod Lists
pub mod Answered
