pub mod written
pub mod classes
pub mod table
