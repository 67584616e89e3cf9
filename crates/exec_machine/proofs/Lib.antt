pub mod Delivering
pub mod Repeats
pub mod Maps
pub mod Acting
pub mod Tasks
pub mod Stepping
pub mod Playing
pub mod Ends
pub mod Begins
pub mod Opening
pub mod MadeEvents
mod Aways
