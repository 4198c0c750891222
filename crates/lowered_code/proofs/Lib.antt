-- Words, trees, names and statements by themselves.
pub mod Widths
pub mod Lists
pub mod Numbers
pub mod Steps
-- Expressions: what they see in a run that stands for a state.
pub mod Scratch
pub mod Seen
pub mod Bit
pub mod Values
pub mod Sight
pub mod Cells
-- Reads: one by one, and those of a statement in turn.
pub mod Keys
pub mod SensorReads
pub mod LookupReads
pub mod AnyRead
pub mod Served
pub mod Turns
pub mod Reading
-- Statements, and the law.
pub mod Writes
pub mod Rising
pub mod Tests
pub mod Statements
-- What crates above ask of what is declared and of the packet's length.
pub mod Variables
pub mod Lengths
pub mod Rows
