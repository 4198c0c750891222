pub mod Counted
pub mod Paths
pub mod Shown
pub mod Words
pub mod RootNames
pub mod Linked
