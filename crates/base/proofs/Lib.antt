-- lemmas
pub mod BelowRoot
