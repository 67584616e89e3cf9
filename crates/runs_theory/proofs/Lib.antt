pub mod events
pub mod runs
pub mod order
pub mod Theorems
pub mod samples
