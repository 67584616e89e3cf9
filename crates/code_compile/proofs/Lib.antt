pub mod Emits
pub mod Forms
pub mod Operands
pub mod Statements
pub mod Generating
pub mod Members
pub mod ClassCodes
pub mod Titling
