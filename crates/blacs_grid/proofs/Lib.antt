pub mod PlaceLaws
pub mod ScopeLaws
