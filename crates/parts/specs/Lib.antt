pub mod Cut
pub mod Law
pub mod Left
