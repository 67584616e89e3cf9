pub mod Changes
pub mod Found
pub mod Indexed
pub mod Maps
pub mod Meeting
pub mod Noting
