pub mod Asks
pub mod Forms
pub mod Says
pub mod Texts
pub mod Words
