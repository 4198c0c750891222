-- Small networks, programs and properties, and programs that are linked by hand.
pub mod Networks
pub mod Linking
pub mod LinkingLaws
-- A P4 program with an action and a table.
pub mod Routing
-- One whose tables hold a control variable.
pub mod Guarding
