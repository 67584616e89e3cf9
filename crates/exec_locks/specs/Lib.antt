pub mod Index
pub mod Locks
