pub mod Acting
pub mod Named
pub mod Finding
pub mod Holding
