-- Which regions a path matches, and which accesses effects speak of.
pub mod Atomic
pub mod Barred
pub mod Effects
pub mod Including
pub mod Indices
pub mod Places
pub mod Quiet
pub mod Uses
