pub mod Lists
pub mod Moment
pub mod Agree
pub mod Keep
pub mod Runs
pub mod NoRejects
pub mod MovedRuns
pub mod MovedLinkages
