-- One event, in a machine and in the run.
pub mod Acting
pub mod Asked
pub mod Begins
pub mod Blocks
pub mod Endings
pub mod Forking
pub mod Forks
pub mod Joinings
pub mod Joins
pub mod NextEvents
pub mod Owns
pub mod Resting
pub mod Sayings
