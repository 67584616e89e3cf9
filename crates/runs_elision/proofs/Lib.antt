pub mod Worlds
pub mod Counts
mod Meaning
pub mod Memory
pub mod Writes
pub mod NewThings
pub mod Doing
pub mod Simulation
mod Loops
mod Branches
mod Programs
mod Fuel
pub mod Theorems
mod Heard
mod Known
mod Greedy
mod Scheduled
mod Samples
