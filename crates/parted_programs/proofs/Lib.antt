pub mod EmptyStruct
pub mod Retyped
pub mod TopsGrow
pub mod SameParts
pub mod Roles
pub mod Given
pub mod FreeNames
mod Rows
