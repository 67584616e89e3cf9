pub mod Replaying
pub mod Showing
