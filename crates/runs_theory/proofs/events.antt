-- Events of a run: of one task, by paths and names, and what they write and cost.
pub mod Carry
pub mod Cells
pub mod Cost
pub mod Mine
pub mod Numbers
pub mod Places
pub mod Replies
pub mod Things
pub mod Upto
