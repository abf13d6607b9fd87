pub mod Pieces
pub mod Following
pub mod Copying
pub mod Lists
