-- lemmas
pub mod Items
pub mod Laws
pub mod Combined
pub mod KindLaws
pub mod Rows
pub mod Steps
pub mod Adding
pub mod Lengths
pub mod InRange
