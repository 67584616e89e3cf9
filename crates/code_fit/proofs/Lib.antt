mod Lists
mod Typed
mod Marks
mod Linked
mod Fitting
mod Bodies
pub mod Theorems
