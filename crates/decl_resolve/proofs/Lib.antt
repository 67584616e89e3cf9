pub mod Around
mod Roots
pub mod Naming
pub mod Reported
pub mod Whole
