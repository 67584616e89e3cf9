pub mod Sites
pub mod Statements
pub mod Bodies
pub mod Keeping
pub mod Alone
pub mod Every
