pub mod Meaning
pub mod Table
pub mod Pinning
pub mod PinnedLaws
