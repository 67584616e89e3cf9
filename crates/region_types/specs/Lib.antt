pub mod Access
pub mod Depth
pub mod Laws
pub mod Same
