pub mod Plans
pub mod Needs
