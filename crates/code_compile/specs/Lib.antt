pub mod Emitted
pub mod Walked
pub mod Bodies
pub mod Classes
pub mod Titles
