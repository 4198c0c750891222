pub mod Calls
pub mod Knows
pub mod Statements
pub mod Controls
pub mod Programs
pub mod Spelled
