-- Effects as the checker gathers them, and as the judgement does.
pub mod Clashing
pub mod Gathered
pub mod Left
pub mod Partial
