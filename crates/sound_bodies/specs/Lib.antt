pub mod Gathered
pub mod Seen
pub mod Naming
pub mod Ready
pub mod Laws
pub mod Whole
