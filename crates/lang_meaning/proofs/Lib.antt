mod Coherent
mod Entries
mod Meant
mod Modes
pub mod Operated
mod Samples
pub mod Tasks
pub mod Ticks
