pub mod Paths
pub mod Fields
pub mod Bytes
pub mod Frames
