pub mod Collecting
pub mod Turning
pub mod Whole
