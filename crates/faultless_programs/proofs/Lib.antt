pub mod Given
pub mod FieldsFound
pub mod OwnFields
pub mod FoundViews
pub mod Within
