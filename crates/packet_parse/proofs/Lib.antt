pub mod Shown
pub mod Ended
pub mod Layers
