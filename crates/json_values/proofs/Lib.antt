pub mod TextLemmas
pub mod AddressLemmas
