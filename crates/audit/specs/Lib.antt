pub mod Chain
pub mod Walk
pub mod Answer
