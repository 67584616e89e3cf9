pub mod Run
pub mod Replays
pub mod Events
pub mod Rounding
pub mod Seeding
pub mod desk
pub mod history
pub mod rounds
