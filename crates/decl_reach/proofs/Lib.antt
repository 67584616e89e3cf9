pub mod Joined
pub mod Locals
pub mod Marking
pub mod Reaching
