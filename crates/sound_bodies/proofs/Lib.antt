pub mod effects
pub mod scope
pub mod statements
pub mod table
pub mod WellTyped
pub mod reach
