pub mod OnceClasses
pub mod OnceExprs
pub mod OnceLevels
pub mod OnceMembers
pub mod OncePaths
pub mod OnceReader
pub mod OnceStmts
pub mod OnceText
