pub mod Expected
pub mod ExpectedClasses
pub mod ExpectedExprs
pub mod ExpectedPaths
pub mod ExpectedStmts
