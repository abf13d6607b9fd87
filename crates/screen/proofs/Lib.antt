pub mod Spans
pub mod Sizes
pub mod Laws
pub mod Along
pub mod Held
