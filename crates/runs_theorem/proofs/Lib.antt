pub mod Weaker
pub mod Joined
pub mod Greedy
pub mod Reducing
pub mod Few
pub mod Progress
pub mod Inside
pub mod Readiness
