mod Lists
pub mod Bound
pub mod CaseLemmas
pub mod PlaceLemmas
pub mod CaptureLemmas
pub mod Steps
pub mod Read
