mod BarWords
mod Carried
mod Places
mod SiteKnown
mod StagerKnown
mod ReleaserKnown
mod RecyclerKnown
mod CopyNumbers
mod CopyOrder
pub mod CacheRange
mod KnownLibraries
