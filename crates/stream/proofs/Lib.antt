pub mod Adding
pub mod Handing
pub mod Reporting
pub mod Single
pub mod Opening
