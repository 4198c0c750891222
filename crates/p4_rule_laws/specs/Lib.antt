-- What callers rest on. To be read in this order.
pub mod Old
pub mod OldPrograms
pub mod Kept
pub mod Guards
pub mod Replaced
pub mod ReplacedPrograms
pub mod Laws
pub mod Growth
pub mod Entered
pub mod GrowthLaws
pub mod LimitLaws
pub mod Roles
