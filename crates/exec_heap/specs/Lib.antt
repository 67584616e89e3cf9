pub mod Heap
pub mod Flat
pub mod Rows
pub mod Keys
