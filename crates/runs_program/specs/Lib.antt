pub mod Interfering
pub mod Laws
pub mod Samples
pub mod Steps
