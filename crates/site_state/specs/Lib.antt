pub mod FileList
pub mod PathIndex
pub mod Inside
pub mod Keeps
pub mod Room
pub mod Legal
pub mod Replays
