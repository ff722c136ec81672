pub mod Folders
pub mod Literals
pub mod Memory
pub mod Moments
pub mod Refusals
pub mod Streams
pub mod Texts
