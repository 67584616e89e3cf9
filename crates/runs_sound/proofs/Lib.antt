pub mod moments
pub mod scopes
pub mod paths
pub mod work
pub mod kinds
pub mod classes
pub mod accesses
pub mod numbers
