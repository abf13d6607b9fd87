pub mod Means
pub mod Point
pub mod AndThen
