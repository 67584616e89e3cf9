pub mod Meant
pub mod MeantClasses
pub mod MeantExprs
pub mod MeantPaths
pub mod MeantStmts
