-- Where nd constructs are reached.
pub mod ForkEdges
pub mod ForksReported
pub mod NdFreeParts
pub mod Reached
pub mod ReachedExpressions
pub mod ReachedStatements
pub mod ShapedLocals
pub mod TypeShapes
pub mod Unmarked
