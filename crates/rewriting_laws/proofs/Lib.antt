pub mod Closed
pub mod Refits
pub mod Stands
pub mod OwnWidthsLemmas
