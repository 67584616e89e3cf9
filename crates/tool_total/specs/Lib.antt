pub mod Replaying
pub mod Answering
