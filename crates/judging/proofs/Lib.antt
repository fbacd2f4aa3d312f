pub mod Settling
pub mod Pairs
pub mod Deciding
