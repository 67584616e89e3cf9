pub mod ParamForms
pub mod MemberForms
pub mod Stating
pub mod parts
pub mod Declaring
pub mod Declarations
pub mod Performing
