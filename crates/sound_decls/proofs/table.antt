-- Rows of the class table, by the text.
pub mod Above
pub mod ClassesAndMethods
pub mod Finding
pub mod RowSources
pub mod Rows
pub mod Supers
pub mod Text
