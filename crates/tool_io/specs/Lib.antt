pub mod Ends
pub mod Memory
pub mod Plan
pub mod Standard
