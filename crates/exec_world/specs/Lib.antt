pub mod Waits
pub mod Costs
pub mod World
pub mod Ready
pub mod Queues
pub mod Words
