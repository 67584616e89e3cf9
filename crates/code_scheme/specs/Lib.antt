pub mod Pieces
pub mod Scheme
pub mod Stands
pub mod Compiled
pub mod Whole
pub mod Laws
pub mod Samples
