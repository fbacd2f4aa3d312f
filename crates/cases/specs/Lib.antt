pub mod Active
pub mod History
pub mod Promise
pub mod Standing
pub mod Played
