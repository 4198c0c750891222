pub mod PuttingLemmas
pub mod TransferLemmas
