-- Closed samples.
pub mod Arranged
pub mod Samples
pub mod Tests
