mod EachFile
mod AllFiles
pub mod Laws
pub mod Computed
