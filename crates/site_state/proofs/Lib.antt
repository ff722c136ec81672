pub mod Places
pub mod Orders
pub mod PathIndex
pub mod Indexed
pub mod Legality
pub mod Effects
pub mod Asking
pub mod Replaying
