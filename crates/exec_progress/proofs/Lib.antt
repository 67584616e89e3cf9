pub mod RunsToActions
pub mod Trees
pub mod Moments
