pub mod PathsLemmas
pub mod ValueLemmas
