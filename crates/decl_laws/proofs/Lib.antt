pub mod Facts
pub mod Few
pub mod Given
pub mod Numbers
pub mod Granted
pub mod Stand
pub mod Way
