pub mod Constructs
pub mod Laws
pub mod Regions
pub mod Sample
pub mod trees
