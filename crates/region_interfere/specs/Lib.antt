pub mod Groups
pub mod InGroups
pub mod Kept
pub mod Laws
pub mod Nd
pub mod Thinned
pub mod Uses
