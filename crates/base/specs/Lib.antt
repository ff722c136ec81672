-- definitions that every crate may cite
pub mod Causes
pub mod Paths
