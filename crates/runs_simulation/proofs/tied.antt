-- A moment of a machine is tied to a run.
pub mod Branching
pub mod Heaps
pub mod Inside
pub mod Lives
pub mod Outs
pub mod Segments
pub mod Sizes
pub mod Sorted
pub mod Starting
pub mod Ties
pub mod Trees
pub mod Waiting
