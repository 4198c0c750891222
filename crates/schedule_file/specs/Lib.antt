-- What callers rest on, in reading order: what a member sets, what members say, what a schedule is, and what of the
-- program these are the view of.
pub mod Sets
pub mod Members
pub mod Schedule
pub mod Views
