pub mod Cells
mod Rows
