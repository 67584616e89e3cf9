-- Who is ready, in a machine and in the run.
pub mod Lively
pub mod Ready
pub mod Unstuck
