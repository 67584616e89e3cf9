mod Earlier
pub mod Locals
pub mod Steps
