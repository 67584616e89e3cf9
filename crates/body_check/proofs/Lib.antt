pub mod Atomics
pub mod Forks
mod Fresh
pub mod Homes
pub mod Iterations
mod Meeting
pub mod Making
pub mod Methodic
pub mod Nodes
pub mod Noting
pub mod Orders
mod Pairs
pub mod Parting
pub mod Passing
mod Regions
pub mod Slots
pub mod Stands
pub mod Touched
pub mod Types
pub mod Walking
