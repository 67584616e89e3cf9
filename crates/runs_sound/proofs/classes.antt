-- Objects, types and members by the class table.
pub mod Chains
pub mod Classes
pub mod Looking
pub mod Members
pub mod Types
