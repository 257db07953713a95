pub mod EntryLaws
pub mod StripLaws
pub mod Cutting
pub mod Placing
pub mod SiteGrids
pub mod SiteLaws
pub mod StripSums
pub mod Encoding
pub mod CodeStrips
mod CodeExamples
