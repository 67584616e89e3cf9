pub mod Lines
pub mod Prefixes
pub mod Values
pub mod Numbers
pub mod Texts
