-- Which lexemes spell a property. To be read in this order.
pub mod Operators
pub mod Expressions
pub mod Declarations
pub mod Properties
pub mod Rising
