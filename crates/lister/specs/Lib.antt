pub mod Bytes
pub mod Text
pub mod Listing
pub mod Answer
