pub mod Touches
pub mod Corner
pub mod Edges
pub mod Cover
pub mod Inner
pub mod Marked
pub mod Look
