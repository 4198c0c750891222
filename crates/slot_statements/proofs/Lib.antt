pub mod TreeLemmas
pub mod StoreLemmas
pub mod StatementLemmas
pub mod DropLemmas
pub mod VarLemmas
pub mod FlowLemmas
pub mod KnownLemmas
pub mod CallLemmas
pub mod ActionLemmas
pub mod TableLemmas
mod Rows
