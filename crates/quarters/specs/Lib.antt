pub mod Square
pub mod Map
