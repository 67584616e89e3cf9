pub mod Joining
pub mod Maps
pub mod Scopes
pub mod Numbers
pub mod Paging
pub mod Paths
pub mod Ranges
