-- What callers rest on: what a lowering gives, and what it has to show.
pub mod Names
pub mod Trees
pub mod Telemetry
pub mod Monitor
pub mod MonitorLaws
