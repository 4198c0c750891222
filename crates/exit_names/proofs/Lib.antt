pub mod Names
pub mod Seen
pub mod Blocks
pub mod Controls
pub mod Found
pub mod Tops
pub mod Programs
