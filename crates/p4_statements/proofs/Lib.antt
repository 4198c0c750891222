pub mod RegistersLemmas
pub mod BodyLemmas
pub mod TablesLemmas
pub mod OutcomesLemmas
pub mod PlainLemmas
