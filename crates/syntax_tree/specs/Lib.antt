pub mod Plain
pub mod Names
pub mod Size
pub mod Shaped
pub mod Targets
pub mod Nd
