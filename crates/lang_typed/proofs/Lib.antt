mod FirstValues
mod Mended
pub mod Narrow
pub mod Parts
mod Refused
pub mod Resolved
mod Single
