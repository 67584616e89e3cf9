pub mod Plain
pub mod Machine
pub mod Fit
pub mod RunsToActions
