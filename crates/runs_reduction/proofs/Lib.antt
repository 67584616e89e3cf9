pub mod shifts
pub mod gathered
pub mod moved
pub mod Theorems
pub mod samples
