pub mod Behaviours
pub mod Runs
pub mod Exact
pub mod Held
pub mod Answers
pub mod Walk
pub mod Sure
