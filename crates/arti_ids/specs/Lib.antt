pub mod Ids
pub mod IdLaws
pub mod Kept
pub mod Lists
pub mod Found
pub mod TextMapLaws
