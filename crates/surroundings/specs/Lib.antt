pub mod Steps
pub mod Surroundings
pub mod Soundness
