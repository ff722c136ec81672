-- definitions of the plain types
pub mod Copies
pub mod Ranges
pub mod Texts
