pub mod MoreFiles
pub mod MoreNumbers
pub mod MorePackets
pub mod MoreRecords
pub mod MoreValues
pub mod PlainValues
pub mod Rows
