pub mod Declared
pub mod Visible
pub mod Above
pub mod Finding
