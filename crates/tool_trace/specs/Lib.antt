pub mod Pieces
pub mod Runs
pub mod Text
pub mod Reading
pub mod Listing
pub mod Laws
pub mod events
