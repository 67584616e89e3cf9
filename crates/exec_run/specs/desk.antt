pub mod Bursts
pub mod Place
pub mod Steps
