pub mod Laws
pub mod Guarantee
pub mod Reduced
pub mod Inside
pub mod Readiness
