pub mod Emitted
pub mod Types
pub mod HeaderBits
pub mod Outer
pub mod Deparser
pub mod Bounds
