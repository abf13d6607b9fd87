pub mod HowMany
pub mod Totals
pub mod Adding
