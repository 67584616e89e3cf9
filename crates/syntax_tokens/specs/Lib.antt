pub mod Says
pub mod Cutting
pub mod Fault
pub mod Piece
pub mod Place
pub mod Reading
pub mod Spelling
