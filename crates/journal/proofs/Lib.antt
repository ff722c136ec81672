pub mod RecordLaws
pub mod Held
pub mod Append
pub mod Reading
