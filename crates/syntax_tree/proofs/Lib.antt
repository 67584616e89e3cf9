pub mod Coded
pub mod Sizes
