-- What callers rest on: files and bytes, counts and their causes, and what each call of a store and a sink does.
pub mod Files
pub mod Causes
pub mod State
pub mod Reading
pub mod Putting
-- What each kind shows of itself, and the words for those in memory.
pub mod Failing
pub mod Held
pub mod MemStore
pub mod SureStore
pub mod RealStore
pub mod MemSink
pub mod SureSink
pub mod RealSink
-- What serves the loops over real files.
pub mod Transfer
