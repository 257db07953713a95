pub mod Strips
pub mod Site
pub mod SiteFields
pub mod Encode
