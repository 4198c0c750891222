pub mod ReportLemmas
pub mod RunLemmas
pub mod HopLemmas
pub mod Shortest
pub mod Named
