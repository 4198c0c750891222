-- Programs of the same meaning without `exit` and `return`, and what of them runs. To be read in this order.
pub mod Programs
pub mod Names
pub mod Calls
pub mod Owned
pub mod Without
pub mod Laws
