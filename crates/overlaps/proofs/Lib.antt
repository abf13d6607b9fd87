pub mod Counting
pub mod Spans
pub mod Tiles
pub mod Sums
pub mod Once
