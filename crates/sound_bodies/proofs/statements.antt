-- Expressions and statements that pass.
pub mod Bodies
pub mod Branches
pub mod Cobegins
pub mod Expressions
pub mod Loops
pub mod MemberBodies
pub mod PartLoops
pub mod Singles
pub mod Statements
pub mod Targets
pub mod Walks
