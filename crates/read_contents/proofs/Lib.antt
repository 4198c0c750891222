pub mod Words
pub mod Keys
pub mod Shaped
pub mod Seated
pub mod Scheduled
