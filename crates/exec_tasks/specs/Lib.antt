pub mod Join
pub mod Lending
pub mod Numbered
pub mod Pages
pub mod Scope
pub mod Tree
