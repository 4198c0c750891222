pub mod Firsts
pub mod Orders
pub mod Dots
pub mod Walks
