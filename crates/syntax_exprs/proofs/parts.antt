pub mod ExprParts
pub mod OperatorParts
pub mod PathParts
pub mod SelectionParts
pub mod TargetParts
pub mod TypeParts
pub mod UnaryParts
