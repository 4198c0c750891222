pub mod PlainActs
pub mod Values
pub mod Lengths
pub mod LengthCalls
pub mod Plainly
pub mod Near
pub mod NearStates
