-- The run with each deterministic construct after its fork.
pub mod AfterForks
pub mod Branch
pub mod Ended
pub mod Homes
pub mod InBlocks
pub mod Loose
pub mod Move
pub mod OneMoved
pub mod Together
pub mod Waiting
