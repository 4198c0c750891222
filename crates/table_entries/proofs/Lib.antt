pub mod Keys
pub mod Noted
pub mod Packed
pub mod Listed
