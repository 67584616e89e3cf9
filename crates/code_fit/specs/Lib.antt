pub mod Room
pub mod Closed
pub mod Laws
