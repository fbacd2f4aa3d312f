pub mod Digits
pub mod Exact
pub mod Laid
pub mod Bounds
pub mod Idle
pub mod Taking
