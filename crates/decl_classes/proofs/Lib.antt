pub mod Back
pub mod Counted
pub mod Overrides
pub mod Params
pub mod Parts
pub mod Rising
pub mod Tables
