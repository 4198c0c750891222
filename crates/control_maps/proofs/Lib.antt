pub mod Places
pub mod Names
pub mod Taking
pub mod Filling
