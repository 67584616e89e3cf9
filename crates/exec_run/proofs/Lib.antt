pub mod Coming
pub mod Following
pub mod Happening
pub mod Rounded
pub mod Seeded
