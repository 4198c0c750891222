pub mod Placed
pub mod Numbered
pub mod Filled
pub mod Started
pub mod Named
