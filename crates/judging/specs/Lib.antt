pub mod Valid
pub mod Judged
pub mod Performed
