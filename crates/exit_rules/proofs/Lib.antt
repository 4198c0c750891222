pub mod Guarded
pub mod Counted
pub mod Declared
pub mod Alone
pub mod Controls
pub mod WellTyped
