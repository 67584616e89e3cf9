pub mod Cells
pub mod Nodes
pub mod Rows
pub mod Laws
pub mod Paths
pub mod Details
