-- What is in scope, and the frames that fit it.
pub mod Alike
pub mod Closed
pub mod Codes
pub mod Frames
pub mod InEffects
pub mod InScope
pub mod Locals
pub mod Placed
pub mod Wider
