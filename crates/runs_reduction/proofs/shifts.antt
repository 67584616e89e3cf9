-- Events of a run put elsewhere.
pub mod Insertion
pub mod Left
pub mod Overlap
pub mod Rules
pub mod Shifts
pub mod Spots
pub mod Under
