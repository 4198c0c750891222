-- Lemmas.
mod Telling
mod Lists
mod Going
mod Shown
mod Entering
mod Leaving
mod Standing
mod Made
mod Departing
mod NewContents
pub mod Running
pub mod Starting
pub mod Ending
