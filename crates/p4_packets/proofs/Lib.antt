pub mod FieldsLemmas
pub mod ParseLemmas
pub mod LeftLemmas
pub mod SelectLemmas
pub mod EndsLemmas
