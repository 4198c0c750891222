pub mod Numbers
pub mod Places
pub mod Links
pub mod Ends
pub mod Hops
pub mod Counts
pub mod Passage
