pub mod Fitting
pub mod Lists
pub mod Reach
pub mod Shapes
