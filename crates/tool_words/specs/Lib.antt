pub mod Demo
pub mod Words
pub mod Jobs
pub mod Reports
pub mod Laws
