-- Classes and members of an accepted program.
pub mod Beginning
pub mod Classes
pub mod Closed
pub mod Fitting
pub mod Inheriting
pub mod Members
