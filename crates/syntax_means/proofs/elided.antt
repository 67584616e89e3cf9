pub mod Bodies
pub mod Branches
pub mod Copies
pub mod Forms
pub mod Frames
pub mod Programs
pub mod Runs
pub mod Untouched
