-- What it gives that a program has no fault: the program that is linked, what header variables read, and room.
pub mod Given
pub mod FoundViews
pub mod Within
-- What serves these.
pub mod FieldPaths
