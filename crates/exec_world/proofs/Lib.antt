pub mod Maps
pub mod Places
pub mod Freely
pub mod Bits
pub mod Sets
pub mod Waking
