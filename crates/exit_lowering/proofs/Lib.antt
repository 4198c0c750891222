pub mod Places
pub mod Numbered
pub mod Facts
