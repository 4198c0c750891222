pub mod Sums
pub mod Limits
pub mod Counted
pub mod Room
pub mod Holding
pub mod Places
pub mod Jobs
