pub mod Clash
pub mod Gains
pub mod Touches
pub mod Earlier
