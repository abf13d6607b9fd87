pub mod Audits
pub mod Placing
pub mod Causes
pub mod Keeping
pub mod OneByOne
pub mod Units
pub mod Asking
pub mod OneAnswer
