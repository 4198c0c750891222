-- The pure readers' equations, and the turns of the code's loops.
pub mod LastNames
pub mod Layers
pub mod Turns
-- What is read rests on the lexemes up to its end.
pub mod Locality
-- What is spelled is read.
pub mod Behind
pub mod Tails
pub mod Balanced
pub mod CompleteSteps
pub mod Complete
-- What is read is spelled so, and what was read up to a fault begins an expression.
pub mod SoundSteps
pub mod SoundPaths
pub mod SoundOperands
pub mod SoundJoins
pub mod Sound
-- What goes on with no expression.
pub mod Going
pub mod WholeExpressions
