-- The work of a task is in order by the meaning that looks at kinds, of which the meaning is an instance; and no value or answer of a wrong kind is met.
pub mod Agreeing
pub mod Alike
pub mod Expressions
pub mod Meaning
pub mod Meant
pub mod Root
pub mod Statements
pub mod Tasks
pub mod Together
pub mod Uses
