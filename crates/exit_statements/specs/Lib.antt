-- Statements of the same meaning without `exit` and `return`, and how their runs stand to those of the given ones. To be
-- read in this order.
pub mod Without
pub mod Free
pub mod Alike
pub mod Laws
pub mod Actions
pub mod Controls
pub mod Written
pub mod WrittenActions
pub mod Bounds
