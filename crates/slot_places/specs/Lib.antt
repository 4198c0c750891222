-- What callers rest on: which slots a program's paths have, when a program has places and what holds of them, and where the
-- fields of headers begin. To be read in this order.
pub mod ProgramRows
pub mod ProgramPlaces
pub mod HeaderSlots
