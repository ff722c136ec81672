pub mod Lines
pub mod Cuts
pub mod Facts
pub mod MadeBytes
pub mod WordCuts
pub mod WordLaws
pub mod LineLaws
pub mod BadJournals
