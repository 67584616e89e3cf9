pub mod Bodies
pub mod Calls
pub mod Edges
pub mod Marking
pub mod Reach
pub mod Shapes
