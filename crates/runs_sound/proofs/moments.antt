-- A run, event by event.
pub mod Acting
pub mod Branching
pub mod Carried
pub mod Cells
pub mod Joining
pub mod Keeping
pub mod Moments
pub mod Never
pub mod Sound
pub mod There
pub mod Whole
