pub mod Blocks
pub mod Bodies
pub mod Turns
pub mod Keys
mod Made
