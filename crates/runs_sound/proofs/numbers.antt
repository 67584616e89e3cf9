-- Numbers of 32 bits.
pub mod Ints
pub mod Numbers
pub mod Small
