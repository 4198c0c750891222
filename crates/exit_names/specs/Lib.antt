-- What the controls of a well-typed program use.
pub mod Laws
