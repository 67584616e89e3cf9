-- What is in scope at a place of a body.
pub mod Beginnings
pub mod Closed
pub mod Declaring
pub mod Entering
pub mod Growing
pub mod InParams
pub mod InScope
pub mod InScopeStatements
pub mod LocalRegions
pub mod Meant
pub mod ParamNames
pub mod Readiness
pub mod Unnamed
