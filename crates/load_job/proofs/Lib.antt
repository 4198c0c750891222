mod Held
mod Closed
mod Within
mod Cases
mod Asked
