-- Where accesses lie, and which conflict.
pub mod Free
pub mod Guarding
pub mod Levels
pub mod Lying
pub mod Meeting
