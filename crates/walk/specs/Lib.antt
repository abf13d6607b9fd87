pub mod Lists
pub mod Touched
pub mod Row
