pub mod Bytes
pub mod Cells
pub mod LeftOut
pub mod Params
mod Rows
