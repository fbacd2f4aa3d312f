pub mod Steps
pub mod Cases
