-- One run: what comes after what, blocks, who is ready, schedules.
pub mod Blocks
pub mod Bound
pub mod Faithful
pub mod Finishing
pub mod ForkSince
pub mod Ready
pub mod Schedules
pub mod Standing
pub mod Written
