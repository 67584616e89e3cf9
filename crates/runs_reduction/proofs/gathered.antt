-- The run with the events of each block at its entry.
pub mod AtEntries
pub mod Block
pub mod Gather
pub mod OneGathered
