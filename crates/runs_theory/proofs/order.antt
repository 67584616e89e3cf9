-- Two runs that agree, and the order of elision.
pub mod Agreement
pub mod Between
pub mod Compare
pub mod Greatest
pub mod Sorted
pub mod Sorting
pub mod Working
