pub mod Histories
pub mod Promises
pub mod Cases
pub mod Plays
