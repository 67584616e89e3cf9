pub mod Covered
pub mod Sets
