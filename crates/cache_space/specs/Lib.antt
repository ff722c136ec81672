pub mod Blocks
pub mod Flags
pub mod Space
