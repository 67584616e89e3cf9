pub mod Lists
pub mod Above
pub mod Padding
pub mod Locals
pub mod Dropped
pub mod Counting
