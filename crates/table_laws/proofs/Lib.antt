pub mod Actions
pub mod Listed
pub mod Puts
pub mod Carries
