pub mod Apart
pub mod Own
pub mod OwnCalls
pub mod Held
