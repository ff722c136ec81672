-- definitions of the written form of a step
pub mod Forms
pub mod Lengths
pub mod Reading
pub mod Writing
pub mod Written
