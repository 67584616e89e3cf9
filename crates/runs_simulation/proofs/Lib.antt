pub mod alike
pub mod tied
pub mod events
pub mod ready
pub mod Recorded
