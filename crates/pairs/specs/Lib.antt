pub mod Program
pub mod Encoded
pub mod Meant
pub mod File
