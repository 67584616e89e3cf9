pub mod Carried
pub mod Equal
pub mod Order
pub mod Rows
pub mod Up
