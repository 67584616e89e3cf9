pub mod Front
pub mod Judging
