pub mod CaseLists
pub mod PortTests
