pub mod Alike
pub mod Checked
pub mod Known
pub mod Numbered
