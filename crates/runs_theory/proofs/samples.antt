-- Closed samples.
pub mod Play
pub mod Samples
pub mod Scripts
pub mod Tests
