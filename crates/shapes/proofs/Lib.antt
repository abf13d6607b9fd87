pub mod ByKind
pub mod Words
