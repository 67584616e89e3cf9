-- What is written in a signature is good where it stands.
pub mod Args
pub mod Around
pub mod Carried
pub mod Indices
pub mod Params
pub mod Paths
pub mod Putting
pub mod Signs
pub mod Types
