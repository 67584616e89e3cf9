pub mod Names
pub mod Classes
