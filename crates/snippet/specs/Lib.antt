pub mod Program
pub mod Layout
pub mod Keeps
pub mod Meant
pub mod Encode
pub mod Parse
pub mod Reads
pub mod Runs
