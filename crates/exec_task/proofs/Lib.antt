pub mod Taken
pub mod BySite
pub mod FirstValues
pub mod Bodies
pub mod Branching
pub mod Starting
pub mod Stepping
pub mod Resuming
pub mod RunningToAction
pub mod Dropped
pub mod Leading
pub mod Idle
pub mod RunningLocally
mod Spots
