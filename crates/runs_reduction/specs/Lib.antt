pub mod Insertion
pub mod Gathered
pub mod Moved
pub mod Guarded
pub mod Laws
pub mod Samples
