-- What a machine has and what a run has are alike.
pub mod Alikes
pub mod Bodies
pub mod RunsToActions
pub mod Noted
pub mod Readings
pub mod Sights
pub mod Steps
pub mod Wrapping
