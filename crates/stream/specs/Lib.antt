pub mod OnlyHandIns
pub mod Files
pub mod Models
pub mod Printed
pub mod Opened
pub mod Handed
