pub mod Answer
pub mod Call
pub mod Replaying
pub mod Events
pub mod Refusing
pub mod Rounds
pub mod Guarantee
pub mod Keeps
