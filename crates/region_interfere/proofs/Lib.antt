pub mod Alone
pub mod Covered
pub mod Ends
pub mod Filtered
pub mod InGroups
pub mod Keys
pub mod Noted
pub mod Transport
