-- Lists, and names that are declared.
pub mod Lists
pub mod Once
-- The telemetry's fields and words, and what header variables read.
pub mod TelemetryFields
pub mod TelemetryWords
pub mod HeaderWords
-- What the rules of types give of declarations and of flat code.
pub mod Declarations
pub mod TelemetryBytes
pub mod CodeWidths
pub mod CodeSuits
pub mod FlatForms
-- Numbers and tables are few.
pub mod Numbering
pub mod TextReads
pub mod ReadCounts
pub mod BlockCounts
pub mod PlainNames
pub mod Few
-- The law: what a switch keeps, what holds of a given property, and its two parts.
pub mod Kept
pub mod Facts
pub mod Parts
pub mod Entry
pub mod Exit
pub mod MonitorLaws
