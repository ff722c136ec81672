pub mod StandsFor
pub mod Replayed
pub mod Journals
pub mod Ready
pub mod Counts
pub mod Served
