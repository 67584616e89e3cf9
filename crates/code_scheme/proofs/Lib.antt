mod Below
pub mod Closing
pub mod Does
pub mod Sim
pub mod Tables
pub mod Right
pub mod Statements
pub mod Theorems
pub mod Pieces
pub mod Placed
pub mod Whole
pub mod Branched
pub mod Built
pub mod Bodies
pub mod Samples
pub mod RunsToActions
