pub mod Records
pub mod State
pub mod Calls
pub mod Readers
pub mod Inside
