pub mod Flat
pub mod Keyed
pub mod Made
