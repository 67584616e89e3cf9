pub mod Trees
pub mod Declared
pub mod Paths
pub mod Bodies
pub mod Members
pub mod Programs
pub mod Choosing
