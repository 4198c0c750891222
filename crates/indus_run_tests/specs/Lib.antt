-- What serves the worked rows.
pub mod Properties
pub mod Logs
pub mod Single
