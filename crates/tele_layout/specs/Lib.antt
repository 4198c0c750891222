-- What callers rest on: the bytes of the telemetry, where its variables stand in them, why there is no room; laws.
pub mod Telemetry
pub mod Layouts
pub mod Faults
pub mod Laws
-- What serves the proofs.
pub mod TeleDecls
pub mod Reading
