pub mod Numbers
pub mod Fits
pub mod Moved
pub mod Worlds
pub mod Mapped
pub mod Simpler
pub mod Claims
