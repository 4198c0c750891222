pub mod FreeNames
pub mod Taken
pub mod Causes
pub mod NoFault
pub mod CleanScopes
pub mod TableNames
mod Rows
