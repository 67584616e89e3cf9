-- The work of a task is in order: one case a construct.
pub mod Blocks
pub mod Calls
pub mod Cobegins
pub mod Counting
pub mod Entering
pub mod Expressions
pub mod Forking
pub mod Forks
pub mod Making
pub mod NdFree
pub mod PartForks
pub mod Parts
pub mod Regions
pub mod Typed
pub mod Walks
pub mod Work
pub mod Writing
