pub mod Progress
pub mod Counted
pub mod Onward
pub mod Targets
