pub mod Loading
pub mod Switches
pub mod Jobs
pub mod First
