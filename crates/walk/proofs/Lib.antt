pub mod Lists
pub mod Touched
pub mod Exists
pub mod Glass
pub mod Grid
