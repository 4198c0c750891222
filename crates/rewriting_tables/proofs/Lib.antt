pub mod Values
pub mod Before
