-- What the class table of an accepted text says, by its text.
pub mod Declarations
pub mod Extending
pub mod Lineage
pub mod Membership
pub mod Reported
pub mod RowShapes
pub mod SignatureTypes
pub mod Sizes
pub mod Slots
pub mod Slotted
pub mod Standing
pub mod Subtypes
